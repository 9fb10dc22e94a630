-- Lemmas of this crate.
pub mod Marks
pub mod Pairs
pub mod Quoting
