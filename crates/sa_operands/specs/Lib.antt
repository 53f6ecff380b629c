pub mod Operands
pub mod Places
pub mod Definitions
pub mod Expressions
pub mod Lists
