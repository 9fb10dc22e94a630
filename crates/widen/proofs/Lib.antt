-- Lemmas of this crate.
pub mod Bridges
pub mod Transfers
pub mod Carrying
pub mod Copying
pub mod Premises
pub mod Spots
