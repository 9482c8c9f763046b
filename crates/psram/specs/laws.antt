-- Theorems about the definitions beside this file. Nothing here is to be believed.
pub mod Parts
pub mod Pieces
pub mod Lists
pub mod Listed
pub mod Tiles
