pub mod Clients
pub mod Counting
pub mod Padding
pub mod Reports
pub mod Runs
pub mod Streams
pub mod Turns
