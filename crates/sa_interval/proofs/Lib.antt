pub mod BitOps
pub mod Complements
pub mod Hulls
pub mod Lattice
pub mod Least
pub mod Members
pub mod Products
pub mod Quotients
pub mod Remainders
pub mod Rising
mod Sample
pub mod Shifts
pub mod Stops
pub mod Sums
pub mod TypeRanges
pub mod Wraps
