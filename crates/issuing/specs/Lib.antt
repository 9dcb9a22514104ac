pub mod Issued
pub mod Objects
