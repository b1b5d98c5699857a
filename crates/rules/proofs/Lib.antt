pub mod Compared
pub mod Gathers
pub mod Listing
pub mod Few
pub mod Rows
pub mod Reached
pub mod Answered
pub mod Exactness
