pub mod PageLemmas
pub mod ReplacingLemmas
pub mod ChangeLemmas
pub mod SpliceLemmas
pub mod LineLemmas
mod MarkedLemmas
pub mod UnitLemmas
