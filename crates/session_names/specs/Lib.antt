pub mod Choices
pub mod Names
pub mod NameRows
pub mod Runs
pub mod RunRows
