pub mod Allowances
pub mod FromWish
pub mod Promised
