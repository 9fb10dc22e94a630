-- What segments of words are, and what a source's calls make of them.
pub mod Memory
pub mod Calls
pub mod Meaning
