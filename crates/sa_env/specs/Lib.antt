pub mod Flat
pub mod Forms
pub mod Laws
pub mod Shop
pub mod SlotLaws
pub mod Slots
pub mod WalkLaws
pub mod Walks
