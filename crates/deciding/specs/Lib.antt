-- What edits, choices and decisions mean.
pub mod Edits
pub mod Choosing
pub mod Deciding
