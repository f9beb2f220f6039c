mod DigitLemmas
mod OpeningLemmas
mod TextSizes
