pub mod NewThings
pub mod Makings
pub mod MakingSteps
pub mod MakingAnswers
