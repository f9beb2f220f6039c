pub mod JobLines
pub mod JobKeys
pub mod JobLists
