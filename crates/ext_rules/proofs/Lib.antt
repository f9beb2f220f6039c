pub mod DraftLemmas
pub mod FileLemmas
pub mod KeyLemmas
