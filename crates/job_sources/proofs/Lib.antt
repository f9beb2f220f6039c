pub mod Children
pub mod Following
pub mod Nearer
pub mod Over
pub mod Ranking
