pub mod Counts
pub mod Given
pub mod Walks
pub mod Calls
pub mod Laws
