-- Lemmas of this crate.
pub mod Making
pub mod Wholes
