-- The definitions that contracts of this crate cite.
pub mod Lines
pub mod Quotes
pub mod Texts
