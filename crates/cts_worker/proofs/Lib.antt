pub mod Counting
pub mod Onwards
pub mod Holdings
pub mod Lasting
pub mod Unlinked
pub mod Marking
