pub mod Analysis
pub mod Straight
