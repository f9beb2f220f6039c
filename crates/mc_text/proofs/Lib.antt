pub mod Civil
pub mod Components
pub mod Drawables
pub mod Prefixes
pub mod Runs
pub mod Units
