pub mod Receive
pub mod Pieces
pub mod Faces
pub mod laws
