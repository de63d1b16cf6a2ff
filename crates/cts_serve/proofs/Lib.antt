pub mod PieceLemmas
pub mod TroubleLemmas
pub mod ServedLemmas
pub mod HostLemmas
pub mod ServeLemmas
