pub mod Numbers
pub mod Fields
pub mod Tied
pub mod Limits
