pub mod FrontLemmas
pub mod DecodedLemmas
pub mod CutLemmas
pub mod DrawnLemmas
pub mod TerminalLemmas
pub mod LayoutLemmas
pub mod DrawnGlyphs
pub mod RowLemmas
