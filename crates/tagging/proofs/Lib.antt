pub mod WalkLemmas
pub mod CutLemmas
pub mod ParseLemmas
pub mod FrontLemmas
pub mod RegexLemmas
pub mod SetLemmas
pub mod CompareLemmas
pub mod KeepLemmas
