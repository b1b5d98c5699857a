pub mod Worked
pub mod Granted
