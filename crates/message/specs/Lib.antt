-- Drafts, their calls and answers, as the law has them.
pub mod Refusals
pub mod Drafts
