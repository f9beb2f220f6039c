pub mod CallAnswers
pub mod LinkTexts
pub mod PermittedCalls
pub mod Reading
pub mod Runs
pub mod Tried
