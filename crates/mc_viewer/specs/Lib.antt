pub mod Units
pub mod Rows
pub mod Viewing
pub mod Pages
pub mod Windows
pub mod ViewerSteps
pub mod Ways
pub mod Searches
