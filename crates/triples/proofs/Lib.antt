pub mod Tied
pub mod Frames
pub mod Closed
pub mod Stated
