pub mod Bounds
pub mod Tables
pub mod Stored
pub mod Walks
pub mod Points
pub mod Closed
