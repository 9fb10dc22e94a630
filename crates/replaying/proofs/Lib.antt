-- Lemmas of this crate.
pub mod Running
pub mod Outcomes
