pub mod Paths
pub mod Sorted
pub mod Twos
mod Siblings
mod ApartLemmas
mod DigestLemmas
mod BesideLemmas
pub mod MaskLemmas
pub mod CheckLemmas
pub mod SplitLemmas
pub mod StarLemmas
pub mod NamingLemmas
pub mod ChildLemmas
pub mod PlanLemmas
pub mod AskingLemmas
