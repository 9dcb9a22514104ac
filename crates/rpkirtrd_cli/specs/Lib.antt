pub mod Decimals
pub mod DecimalRows
pub mod Bounds
pub mod Derived
pub mod Shrinks
pub mod ShrinkRows
pub mod Urls
