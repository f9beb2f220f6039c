mod MeaningLemmas
pub mod LineLemmas
