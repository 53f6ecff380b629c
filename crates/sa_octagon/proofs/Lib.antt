pub mod Signs
pub mod Points
pub mod Ends
pub mod Filling
pub mod Tops
pub mod Widened
pub mod Bounded
