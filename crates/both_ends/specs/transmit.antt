pub mod Turned
pub mod Blocks
pub mod Marked
pub mod Prepared
pub mod Sending
