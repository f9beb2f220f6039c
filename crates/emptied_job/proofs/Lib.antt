pub mod RemovalFolders
pub mod RemovalRuns
