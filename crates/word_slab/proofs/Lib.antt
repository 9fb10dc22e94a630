-- Lemmas on segments that are cut from a list of words.
pub mod Parts
pub mod Growth
