pub mod Columns
pub mod Loss
pub mod Tables
