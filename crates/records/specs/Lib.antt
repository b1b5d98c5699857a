pub mod Bytes
pub mod Records
pub mod Forms
pub mod Kinds
pub mod Refusals
