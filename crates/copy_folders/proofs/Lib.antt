pub mod Stepping
mod Coming
