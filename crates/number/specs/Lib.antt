-- The definitions that contracts of this crate cite, and lemmas that laws cite.
pub mod Again
pub mod Kinds
pub mod Numbers
pub mod Parsing
