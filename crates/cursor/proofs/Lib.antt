-- Lemmas of this crate.
pub mod Stacks
pub mod Weights
pub mod Advances
