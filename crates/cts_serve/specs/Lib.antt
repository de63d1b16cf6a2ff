pub mod Words
pub mod Lines
pub mod Served
pub mod Serving
pub mod Clauses
