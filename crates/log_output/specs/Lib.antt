pub mod Buffers
pub mod Limits
pub mod Sinks
pub mod Logs
pub mod OutputRows
