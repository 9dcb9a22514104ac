pub mod Sets
pub mod TakingOffers
pub mod PayloadsInUse
pub mod FrontUnits
pub mod Turns
pub mod Serving
pub mod Transcripts
pub mod Fetching
