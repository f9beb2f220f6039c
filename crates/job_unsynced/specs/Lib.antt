pub mod Folders
pub mod Changes
