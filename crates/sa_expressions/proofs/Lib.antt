pub mod Fronts
pub mod Levels
pub mod Rooms
