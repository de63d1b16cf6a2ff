pub mod Over
pub mod ReadBack
pub mod Endings
pub mod Lasts
