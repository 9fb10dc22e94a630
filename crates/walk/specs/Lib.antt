-- What the answers of a walk mean.
pub mod Spots
pub mod Landings
pub mod Shapes
pub mod Holding
pub mod Slots
pub mod Showing
