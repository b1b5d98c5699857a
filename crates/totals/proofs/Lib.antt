pub mod Outcomes
pub mod Opened
pub mod Scope
pub mod Exactness
pub mod Stated
pub mod Limits
