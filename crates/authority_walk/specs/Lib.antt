pub mod Hierarchy
pub mod Progress
pub mod Stands
pub mod Walks
