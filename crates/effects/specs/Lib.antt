-- What code that works on an arena does, in the words of the law of calls: states, and parts of a call that went or found no space.
pub mod States
pub mod Parts
pub mod Makes
pub mod Whole
