-- Lemmas of this crate, which crates above cite.
pub mod Joins
pub mod Writing
pub mod Marks
pub mod Allocations
pub mod Keeping
pub mod Calls
