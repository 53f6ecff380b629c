pub mod Alarms
pub mod Names
pub mod Shown
pub mod Report
pub mod Marks
pub mod Spots
pub mod Loops
