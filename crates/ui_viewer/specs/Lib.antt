pub mod ViewerKeys
pub mod Questions
pub mod Numbers
pub mod Motions
pub mod ViewerScreens
pub mod Openings
pub mod ViewerFrames
