pub mod Feed
pub mod Loopback
