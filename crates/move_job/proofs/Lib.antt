pub mod MovingRuns
pub mod Taken
