pub mod Runs
pub mod Promise
pub mod Scripts
pub mod Results
