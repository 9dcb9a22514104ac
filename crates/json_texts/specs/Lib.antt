pub mod Encoding
pub mod Position
pub mod Reasons
pub mod Shown
pub mod TextRows
