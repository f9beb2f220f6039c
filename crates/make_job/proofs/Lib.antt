pub mod MakingFolders
pub mod MakingRuns
pub mod Answering
