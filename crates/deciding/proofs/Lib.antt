-- Lemmas of this crate.
pub mod Settling
pub mod Verdicts
