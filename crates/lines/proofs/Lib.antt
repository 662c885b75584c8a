pub mod Fields
pub mod Written
pub mod Taking
pub mod Pieces
pub mod Whole
pub mod Putting
pub mod Again
