pub mod Quotients
pub mod Weights
pub mod LinearLaws
pub mod TotalLaws
pub mod Rounding
pub mod LinearExact
pub mod Stated
pub mod Slack
