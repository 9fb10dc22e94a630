-- Lemmas of this crate.
pub mod Lengths
pub mod Emptying
pub mod Pendings
pub mod Walks
pub mod Turning
