pub mod Shared
pub mod receive
pub mod transmit
pub mod Theorem
