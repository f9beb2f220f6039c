pub mod ByteLemmas
pub mod FirstPlaceLemmas
pub mod GapLemmas
pub mod KeptCountLemmas
pub mod LineCountLemmas
pub mod PlaceLemmas
pub mod RangeLemmas
mod WorkedValues
