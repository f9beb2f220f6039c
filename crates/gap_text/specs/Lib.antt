pub mod LineCounts
pub mod Places
pub mod PointedText
pub mod UndoHistory
