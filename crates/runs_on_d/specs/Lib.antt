pub mod Receive
pub mod Transmit
