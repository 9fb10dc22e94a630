-- Lemmas of this crate.
pub mod Splices
