pub mod Printing
pub mod Runs
pub mod Starting
pub mod Taking
