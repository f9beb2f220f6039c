pub mod FolderCopying
pub mod FolderSteps
pub mod Levels
