-- What an arena means, and what allocations answer and leave.
pub mod Faults
pub mod Space
pub mod Zeroed
pub mod Rule
pub mod Steady
