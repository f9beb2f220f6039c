pub mod HotlistKeys
pub mod HotlistFiles
pub mod HotlistRows
pub mod HotlistBoxes
pub mod HotlistFrames
