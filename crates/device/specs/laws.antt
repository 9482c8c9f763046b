-- Theorems about the definitions beside this file, which the proofs of the code cite. Nothing here is to be believed.
pub mod Bytes
pub mod Steps
pub mod Receive
pub mod Transmit
pub mod Values
