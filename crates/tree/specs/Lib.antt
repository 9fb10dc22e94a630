-- Values, what words show, extents, decoding, and what edits of words do.
pub mod Value
pub mod Shows
pub mod Decode
pub mod Extents
pub mod Edits
pub mod Loops
pub mod Numbers
pub mod Words
pub mod Laws
pub mod Zeroing
