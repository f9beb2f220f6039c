pub mod CutLemmas
pub mod TermLemmas
pub mod DraftLemmas
pub mod FileLemmas
pub mod AskingLemmas
