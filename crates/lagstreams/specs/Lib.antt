pub mod Lines
pub mod Sinks
pub mod Sources
