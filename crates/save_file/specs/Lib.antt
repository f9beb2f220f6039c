pub mod Looking
pub mod Safe
pub mod SaveCalls
pub mod SaveLaws
pub mod SaveSteps
pub mod Saving
