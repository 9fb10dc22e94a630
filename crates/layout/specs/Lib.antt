-- What becomes of the words of objects.
pub mod Emptied
pub mod Clears
