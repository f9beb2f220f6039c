pub mod Removals
pub mod RemovalSteps
