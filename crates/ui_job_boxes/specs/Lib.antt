pub mod JobBoxes
pub mod Lines
pub mod LiveJobs
pub mod Openings
pub mod Paintings
pub mod Plans
pub mod Replies
