pub mod Demand3
pub mod receive
pub mod transmit
