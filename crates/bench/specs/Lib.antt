-- What the contracts of the console cite.
pub mod Digit
pub mod Number
pub mod Pairs
pub mod Laws
pub mod Output
