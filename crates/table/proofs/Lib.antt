-- Lemmas of this crate.
pub mod Tables
pub mod Extending
pub mod Allocations
pub mod Entries
pub mod Rolling
pub mod Bounds
