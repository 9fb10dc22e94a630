-- Calls, the plain machine, the words that calls leave, the law of a call and runs of calls.
pub mod Calls
pub mod Machine
pub mod Reads
pub mod Exact
pub mod Law
pub mod Runs
pub mod Drafts
pub mod Enough
pub mod Cases
pub mod Excluded
