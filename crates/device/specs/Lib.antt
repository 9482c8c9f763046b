pub mod Device
pub mod Faces
pub mod Values
pub mod laws
