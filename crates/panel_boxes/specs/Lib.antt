pub mod Choices
pub mod Openings
pub mod Replies
pub mod Paintings
