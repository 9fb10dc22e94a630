-- Lemmas of this crate.
pub mod Sessions
