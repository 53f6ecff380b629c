pub mod Bytes
pub mod Comments
pub mod Lexed
pub mod Marks
pub mod Pieces
pub mod Words
pub mod Laws
