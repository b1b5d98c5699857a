pub mod Calls
pub mod Records
pub mod Held
pub mod Makes
