pub mod CarrySteps
pub mod Carryings
pub mod LastCarrySteps
pub mod Orders
pub mod Taking
