-- What a counting layer counts.
pub mod Tally
