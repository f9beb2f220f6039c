pub mod ProfileLemmas
pub mod DigitLemmas
pub mod FolderLemmas
