pub mod Replied
pub mod SnapDesks
pub mod Publishers
pub mod Lasting
