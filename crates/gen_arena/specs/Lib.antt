pub mod Arena
pub mod Grown
