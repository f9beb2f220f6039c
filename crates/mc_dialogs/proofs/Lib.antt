pub mod AsciiLines
pub mod PaintedLines
pub mod ClusterLemmas
pub mod FieldBox
pub mod StatesLeft
