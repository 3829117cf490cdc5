mod Common
pub mod Equal
pub mod Joining
pub mod Rising
pub mod StandingLemmas
pub mod LimitLemmas
