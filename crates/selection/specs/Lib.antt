pub mod Views
pub mod Choice
pub mod Ready
pub mod Joining
pub mod Limits
pub mod Standing
