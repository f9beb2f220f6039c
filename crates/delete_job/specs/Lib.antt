pub mod Standing
pub mod Descending
pub mod TreeDeletionSteps
pub mod Inside
pub mod DeletionSteps
pub mod Deletions
