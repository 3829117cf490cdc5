pub mod Answers
pub mod Captures
pub mod Scripts
pub mod Words
pub mod Owned
pub mod Pieces
