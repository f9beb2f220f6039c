mod Giving
pub mod DirtySettings
mod Trying
