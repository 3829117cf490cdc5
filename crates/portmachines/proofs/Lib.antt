mod Common
pub mod Runs
pub mod Rest
pub mod Choices
pub mod Windows
mod OneRow
mod Modes
mod HearingLemmas
