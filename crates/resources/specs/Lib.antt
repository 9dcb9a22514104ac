pub mod Faults
pub mod Ranges
pub mod Walks
pub mod Resources
pub mod Reading
pub mod Gives
pub mod Sets
pub mod Laws
