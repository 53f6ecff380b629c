pub mod Rows
pub mod Occurring
pub mod Showing
pub mod Counting
pub mod Arguments
pub mod References
