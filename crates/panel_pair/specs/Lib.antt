pub mod Pairs
pub mod Readings
pub mod Openings
pub mod Commands
pub mod Keys
pub mod Looks
pub mod Selected
pub mod Frames
