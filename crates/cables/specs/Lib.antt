pub mod AnyCable
pub mod Cable
pub mod Faults
