-- Lemmas of this crate.
pub mod Places
