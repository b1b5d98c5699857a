pub mod Leaves
pub mod Tries
pub mod Stated
