-- Lemmas of this crate.
pub mod Opening
pub mod Closing
pub mod Growth
pub mod Rebuilding
pub mod Marked
