pub mod EditorKeys
pub mod Questions
pub mod EditorScreens
pub mod EditorOpenings
pub mod EditorFrames
