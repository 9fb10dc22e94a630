-- Lemmas of this crate.
pub mod Rooms
pub mod Placing
pub mod Spelling
