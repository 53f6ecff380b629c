pub mod Told
pub mod Inputs
pub mod Table
pub mod Answer
pub mod Keys
