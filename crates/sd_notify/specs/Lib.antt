pub mod Addresses
pub mod AddressRows
pub mod Notifying
pub mod Watchdogs
pub mod WatchdogRows
