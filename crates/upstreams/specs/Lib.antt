pub mod Notes
pub mod Polls
pub mod Upstreams
pub mod Versions
