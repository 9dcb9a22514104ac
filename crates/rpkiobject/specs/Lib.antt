pub mod Kinds
pub mod KindRows
pub mod Names
pub mod NameRows
