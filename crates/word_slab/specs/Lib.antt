-- What a slab means.
pub mod Cuts
pub mod Faults
pub mod Bounds
