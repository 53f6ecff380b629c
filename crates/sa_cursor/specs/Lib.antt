pub mod Outcome
pub mod Cursor
pub mod Known
