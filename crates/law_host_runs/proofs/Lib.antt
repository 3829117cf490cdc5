mod Sending
pub mod Doings
