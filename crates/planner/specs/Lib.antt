pub mod Cursor
pub mod Page
pub mod Reading
pub mod Writing
