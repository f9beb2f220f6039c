pub mod Removing
pub mod Stepping
