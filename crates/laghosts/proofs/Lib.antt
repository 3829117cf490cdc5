mod Common
pub mod HeldForced
pub mod HostHalves
pub mod HostCounts
pub mod HostHappens
pub mod HostHeadline
pub mod HostForced
