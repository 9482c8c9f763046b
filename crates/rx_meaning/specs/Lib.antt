pub mod Words
pub mod Pieces
pub mod Sentences
