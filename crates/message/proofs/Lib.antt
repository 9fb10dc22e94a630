-- Lemmas of this crate.
pub mod Lawful
