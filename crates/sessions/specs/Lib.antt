-- Lists of calls, edits and reads together.
pub mod Sessions
