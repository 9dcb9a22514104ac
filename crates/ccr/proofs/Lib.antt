pub mod Digests
pub mod ExactCcr
pub mod ExactSets
pub mod Groups
pub mod Limit
pub mod Sorting
pub mod SetBytes
pub mod Sets
mod SetRows
pub mod Sizes
