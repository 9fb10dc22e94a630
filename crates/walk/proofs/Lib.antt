-- Lemmas of this crate.
pub mod Landings
pub mod Shapes
pub mod Along
