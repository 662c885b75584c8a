pub mod Steps
pub mod Room
pub mod Over
pub mod Again
