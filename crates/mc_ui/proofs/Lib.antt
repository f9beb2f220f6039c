mod FindFollowing
mod FindLemmas
mod FindReadings
mod FrameSizes
mod ChoosingLemmas
mod NoWays
mod OverPanels
mod Readings
mod SeekLemmas
pub mod UnknownKeys
