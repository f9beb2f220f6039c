pub mod Conditions
pub mod FileRules
pub mod Actions
pub mod ExtLines
pub mod ExtFiles
pub mod Drafts
