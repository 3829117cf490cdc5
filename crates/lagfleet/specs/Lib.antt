pub mod Doing
pub mod Fleet
pub mod BesideAnyPeer
pub mod Falling
