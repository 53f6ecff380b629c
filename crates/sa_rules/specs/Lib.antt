pub mod Events
pub mod Scenes
pub mod Spots
pub mod Values
pub mod Sight
pub mod Texts
pub mod Rules
pub mod Sites
