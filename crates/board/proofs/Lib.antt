pub mod Opening
pub mod Closing
pub mod Widest
pub mod Slots
pub mod Sounds
pub mod Granted
pub mod Settling
pub mod Stated
