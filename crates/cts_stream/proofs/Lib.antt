pub mod BurstFinding
pub mod LengthFinding
pub mod Cutting
pub mod TerminatedFinding
