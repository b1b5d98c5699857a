pub mod Lowest
pub mod Single
pub mod Earlier
pub mod Pair
pub mod Trials
pub mod Job
pub mod Sixteen
pub mod Granted
