pub mod FilledParts
pub mod JudgedLooks
pub mod LooksInOrder
pub mod Naming
pub mod Peeking
pub mod Placing
pub mod Stepping
pub mod Tries
