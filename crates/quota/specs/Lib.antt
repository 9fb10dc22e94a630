-- What a quota layer means.
pub mod Capped
pub mod Faults
pub mod Bounds
