-- Calls and answers as the law has them, and what a list of calls does.
pub mod Calls
pub mod Replays
