pub mod Lines
pub mod Keys
pub mod Locators
pub mod Choice
pub mod Anchors
pub mod Laws
mod LocatorRows
mod AnchorRows
