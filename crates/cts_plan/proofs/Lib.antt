pub mod Lists
pub mod Chained
pub mod Numbered
pub mod Completed
pub mod Kept
pub mod Runs
