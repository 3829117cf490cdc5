pub mod Doings
pub mod Fleets
pub mod Events
pub mod Stages
mod Falls
