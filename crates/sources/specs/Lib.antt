pub mod ByAnchor
pub mod Ccrs
pub mod Served
pub mod ServedRows
pub mod Shrinking
pub mod ShrinkingRows
pub mod AnchorRows
pub mod TakenLaws
