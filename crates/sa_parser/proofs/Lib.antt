pub mod SourceLemmas
pub mod Structures
