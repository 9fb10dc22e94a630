-- Lemmas of this crate.
pub mod Clearing
pub mod Filling
pub mod Numbers
