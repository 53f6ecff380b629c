pub mod Directives
pub mod Rooms
