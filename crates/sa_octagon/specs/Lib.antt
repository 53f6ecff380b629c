pub mod Packs
pub mod Filled
