pub mod Answered
pub mod AskedOnes
pub mod Barred
pub mod Begun
pub mod Counts
mod Done
mod Fewer
pub mod Finishes
mod Held
pub mod LastCounts
pub mod LastOnes
mod LastRuns
mod Left
pub mod Listed
pub mod MergeStill
pub mod MergedOnes
pub mod Ranked
pub mod Reportings
pub mod StillTelling
mod Syncs
pub mod Targets
pub mod Tellings
pub mod Unbegun
pub mod Waits
mod Worked
