pub mod LineLemmas
pub mod HighLemmas
pub mod WordLemmas
