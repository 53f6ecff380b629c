pub mod BoundLaws
pub mod TableLaws
pub mod WalkLaws
pub mod Pivots
pub mod StoredLaws
pub mod Shortening
pub mod Strengthening
pub mod Soundness
pub mod ClosedLaws
pub mod Closures
pub mod Tightness
pub mod Arcs
pub mod NodeLaws
pub mod MatrixLaws
pub mod OperationLaws
pub mod Sizes
mod Sample
