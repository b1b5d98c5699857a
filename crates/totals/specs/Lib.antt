pub mod Read
pub mod Narrowing
pub mod Worked
pub mod Lists
