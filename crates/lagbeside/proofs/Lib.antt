mod Common
pub mod Counting
pub mod Selecting
pub mod ReadyMembers
pub mod EachPort
pub mod EachSetting
pub mod Timers
pub mod OnePort
pub mod Hearing
pub mod Sounding
pub mod Silence
pub mod Heartbeat
pub mod Knowing
pub mod TableSteps
pub mod Waits
pub mod HostWaits
pub mod Told
mod Serving
mod Others
mod Beside
mod Alone
mod First
mod Never
mod Joining
