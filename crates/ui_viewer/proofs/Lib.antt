pub mod BoxSizes
mod DigitLemmas
mod MotionLemmas
mod OpeningLemmas
pub mod UnknownKeys
