-- The definitions that contracts of this crate cite.
pub mod Arguments
pub mod Order
