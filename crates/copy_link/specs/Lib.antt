pub mod LastTries
pub mod LinkCopying
pub mod LinkSteps
