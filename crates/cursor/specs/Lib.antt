-- What a cursor means, and how it goes on.
pub mod Begun
pub mod Weight
pub mod Steps
