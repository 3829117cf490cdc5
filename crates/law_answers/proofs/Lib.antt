mod Octets
pub mod Firing
mod Fitting
mod Tables
mod Settles
pub mod Changing
mod Receiving
mod Sending
mod Offering
pub mod Each
pub mod SettingAnswers
