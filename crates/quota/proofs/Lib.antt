-- Lemmas on the words that are granted.
pub mod Totals
