pub mod Linear
pub mod Totals
pub mod Division
