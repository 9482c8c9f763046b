-- Theorems about the definitions beside this file, which the proofs of the code cite. Nothing here is to be believed.
pub mod Marks
pub mod Tests
pub mod Places
pub mod Parts
pub mod Updates
pub mod Lifts
pub mod Words
pub mod Stores
pub mod Splits
pub mod Sound
pub mod New
pub mod Walks
