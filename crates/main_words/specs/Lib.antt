pub mod Asked
pub mod Folders
pub mod Numbers
pub mod Profile
pub mod Sizes
