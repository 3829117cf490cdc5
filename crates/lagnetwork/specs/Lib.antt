pub mod Network
pub mod NetworkLaw
