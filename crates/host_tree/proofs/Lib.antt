pub mod Ascending
pub mod RankLemmas
