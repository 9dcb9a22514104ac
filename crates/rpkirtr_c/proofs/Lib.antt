pub mod Addresses
pub mod CacheLaws
pub mod Calls
pub mod Copied
pub mod Handles
pub mod RecordLaws
