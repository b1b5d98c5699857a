pub mod Closed
pub mod Stated
