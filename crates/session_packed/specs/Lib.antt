pub mod Blocks
pub mod ReadingBack
pub mod Shorts
pub mod Walks
