-- Theorems about the definitions beside this file, which the proofs of the code cite. Nothing here is to be believed.
pub mod Rules
pub mod Accepts
pub mod Room
pub mod Pastes
pub mod Prepares
pub mod Values
