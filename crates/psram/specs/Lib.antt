pub mod Cut
pub mod Piece
pub mod List
pub mod laws
