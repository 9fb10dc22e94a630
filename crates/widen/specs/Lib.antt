-- What a move of children and numbers does.
pub mod Moves
pub mod Numbers
