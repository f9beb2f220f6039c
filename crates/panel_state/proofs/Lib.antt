pub mod RowLemmas
pub mod TagLemmas
pub mod ReadingLemmas
pub mod FormatLemmas
pub mod GoingLemmas
