pub mod HotLists
pub mod HotLines
pub mod HotFiles
pub mod LineViews
pub mod Drafts
pub mod ListViews
pub mod Printed
pub mod Places
