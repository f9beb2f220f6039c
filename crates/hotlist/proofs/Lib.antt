pub mod LineLemmas
pub mod QuoteLemmas
pub mod ListLemmas
pub mod GrammarLemmas
pub mod PrintLemmas
pub mod PlaceLemmas
pub mod EditLemmas
