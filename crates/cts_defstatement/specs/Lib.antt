pub mod Causes
pub mod Fields
pub mod Forms
pub mod Lines
pub mod Numbers
pub mod Refusals
pub mod Rules
pub mod Words
