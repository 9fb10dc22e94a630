-- What the contracts of this crate cite: pointer words, sizes in words, elements of lists, and the laws that tie them together.
pub mod Pointers
pub mod Sizes
pub mod Elements
pub mod Kinds
pub mod Parts
pub mod Worked
