pub mod Transmit
pub mod Faces
pub mod Values
pub mod laws
