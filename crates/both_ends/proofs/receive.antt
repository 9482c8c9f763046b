pub mod Good
pub mod Take
pub mod Fill
pub mod Start
pub mod Reach
pub mod Theorem
