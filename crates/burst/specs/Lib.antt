pub mod Burst
pub mod laws
