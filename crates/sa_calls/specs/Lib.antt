pub mod Depths
pub mod Weights
pub mod Recursion
pub mod Rooms
