pub mod FoundList
pub mod Folders
pub mod Walks
pub mod Telling
