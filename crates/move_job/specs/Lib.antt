pub mod Takings
pub mod Movings
pub mod MovingSteps
