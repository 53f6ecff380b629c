pub mod Stands
pub mod Plain
pub mod Values
