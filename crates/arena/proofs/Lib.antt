-- Lemmas of this crate.
pub mod Grants
pub mod Zeros
pub mod Rewind
pub mod Ruled
