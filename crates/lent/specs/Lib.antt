pub mod List
pub mod Cursor
pub mod Laws
