pub mod QuoteLemmas
pub mod WordLemmas
pub mod NameLemmas
pub mod FilledLemmas
pub mod JoinLemmas
pub mod TableLemmas
pub mod ExpansionLemmas
