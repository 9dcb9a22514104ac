pub mod Kinds
pub mod KindRows
