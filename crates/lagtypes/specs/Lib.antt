pub mod Octet
pub mod States
pub mod Order
pub mod Choices
pub mod Group
pub mod Same
pub mod Texts
pub mod Words
