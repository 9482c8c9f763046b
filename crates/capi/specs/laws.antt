-- Theorems about the definitions beside this file. Nothing here is to be believed.
pub mod Words
pub mod Lent
pub mod Calls
