-- The definitions that contracts of this crate cite.
pub mod Paths
pub mod Steps
