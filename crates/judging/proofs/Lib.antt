-- Lemmas of this crate.
pub mod Checking
pub mod Arrivals
pub mod Looking
