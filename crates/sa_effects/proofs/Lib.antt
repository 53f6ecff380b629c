pub mod Bridges
pub mod Forms
pub mod Tame
pub mod Formed
pub mod Guards
pub mod Light
pub mod Fine
pub mod Operations
