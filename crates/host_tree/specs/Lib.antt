pub mod Kept
pub mod Kinds
pub mod Listing
pub mod Modes
pub mod Ranks
pub mod Seen
pub mod Told
