mod Ahead
pub mod Falling
