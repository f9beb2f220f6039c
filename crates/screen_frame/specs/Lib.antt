pub mod Pieces
pub mod Panes
pub mod JobsLine
pub mod KeyBars
pub mod Frames
pub mod Pages
