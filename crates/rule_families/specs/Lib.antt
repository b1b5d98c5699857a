pub mod Narrows
pub mod Placed
pub mod Marks
