pub mod ItemLemmas
pub mod OrderLemmas
pub mod StrictLemmas
pub mod ArrangeLemmas
pub mod FormatLemmas
pub mod RowLemmas
pub mod ReadingLemmas
