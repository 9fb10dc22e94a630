-- The table of segments and the placing rule.
pub mod Segments
pub mod Placing
pub mod Laws
pub mod Meaning
