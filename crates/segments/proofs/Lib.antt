-- Lemmas on segments of words, for sources and for what stands on them.
pub mod Places
