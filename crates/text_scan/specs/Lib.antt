pub mod Lines
pub mod HighBytes
pub mod Words
