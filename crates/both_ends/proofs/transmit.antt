pub mod Prefilling
pub mod Bytes
pub mod Accepting
pub mod Writing
pub mod Calls
pub mod Trace
pub mod Start
pub mod Theorem
