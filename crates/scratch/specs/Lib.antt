-- What a scratch layer means.
pub mod Scratched
pub mod Faults
pub mod Bounds
