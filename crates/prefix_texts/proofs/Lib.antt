pub mod AsnTexts
pub mod Groups
pub mod MixedRows
pub mod Refused
pub mod Sayings
