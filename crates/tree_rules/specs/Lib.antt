pub mod Spot
pub mod Told
pub mod Listed
