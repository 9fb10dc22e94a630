-- What the page source means.
pub mod Paged
pub mod Faults
pub mod Bounds
