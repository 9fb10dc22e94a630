-- What the contracts of this crate cite.
pub mod Growth
pub mod Steps
