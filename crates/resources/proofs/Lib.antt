pub mod BitLaws
pub mod RangeLaws
pub mod ExactResources
pub mod LawProofs
pub mod Listing
pub mod OneList
pub mod Meetings
pub mod Merging
