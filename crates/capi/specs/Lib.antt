pub mod Words
pub mod Answer
pub mod New
pub mod Steps
pub mod Alignment
pub mod Parts
pub mod Pieces
pub mod laws
