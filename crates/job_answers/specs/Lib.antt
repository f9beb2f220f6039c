pub mod Answers
pub mod Decisions
pub mod Questions
pub mod Skipping
