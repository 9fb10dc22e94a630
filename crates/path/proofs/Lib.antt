-- Lemmas of this crate.
pub mod Again
pub mod PathSteps
pub mod Pieces
pub mod Splits
pub mod StepForms
