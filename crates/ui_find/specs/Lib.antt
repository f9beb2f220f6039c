pub mod FindKeys
pub mod Questions
pub mod Tellings
pub mod Listings
pub mod FindScreens
pub mod FindFrames
