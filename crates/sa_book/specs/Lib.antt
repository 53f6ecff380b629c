pub mod Counts
pub mod Rule
pub mod Steps
pub mod Closing
pub mod Passes
