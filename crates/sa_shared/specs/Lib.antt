pub mod Copies
pub mod Forest
pub mod Slots
pub mod Tree
pub mod Walks
pub mod Way
