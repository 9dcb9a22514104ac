pub mod UnitLists
pub mod Concluding
pub mod Exchanging
pub mod FaultRows
pub mod SplitLines
pub mod Starting
