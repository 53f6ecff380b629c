pub mod Laws
pub mod Machine
pub mod Gathered
pub mod Bits
