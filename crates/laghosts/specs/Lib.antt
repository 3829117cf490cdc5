pub mod HostEvents
