pub mod Choosing
pub mod Finders
pub mod NextSteps
