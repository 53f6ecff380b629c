pub mod Grounds
pub mod Sizes
pub mod Reached
pub mod Places
pub mod Slots
pub mod Spots
pub mod Stretches
pub mod Settings
