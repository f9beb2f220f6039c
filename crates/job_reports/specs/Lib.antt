pub mod CallRuns
pub mod Jobs
pub mod Paths
pub mod Questions
pub mod Reading
pub mod Reports
pub mod Stops
pub mod Waits
