mod Decided
mod Items
mod OnWay
mod Refusals
mod Synced
mod Worked
pub mod Staying
pub mod DeletionRuns
