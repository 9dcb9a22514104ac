pub mod RoaLines
pub mod ManifestLines
pub mod OfferLines
pub mod Directories
