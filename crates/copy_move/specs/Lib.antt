pub mod Faults
pub mod Jobs
pub mod Ranks
pub mod Settling
pub mod MountNumbers
pub mod JobStepReports
pub mod Told
pub mod TreeCopies
