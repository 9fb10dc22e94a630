-- Lemmas on the first pages of a list.
pub mod Rows
