pub mod Lists
pub mod Walks
pub mod Arrays
pub mod Cursors
pub mod Meaning
