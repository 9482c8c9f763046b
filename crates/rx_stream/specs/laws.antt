-- Theorems about the definitions beside this file, which the proofs of the code cite. Nothing here is to be believed.
pub mod Lists
pub mod Flats
pub mod Layout
pub mod Runs
pub mod Pieces
pub mod Takes
pub mod Parts
pub mod Answers
pub mod Copies
