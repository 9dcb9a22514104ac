pub mod Cutting
pub mod Framing
pub mod Once
pub mod Locating
pub mod Better
pub mod KeyInfos
pub mod AnchorProfiles
