pub mod Determined
pub mod ReadBack
pub mod Sentences
