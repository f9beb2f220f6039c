pub mod Changes
pub mod DrawnBytes
pub mod Sparse
pub mod Drawings
