pub mod Jobs
pub mod Reports
