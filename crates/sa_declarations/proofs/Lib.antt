pub mod TrimLemmas
pub mod InitRows
pub mod InitialLaws
pub mod DeclarationLaws
