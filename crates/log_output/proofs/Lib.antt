pub mod Chunks
pub mod Counts
pub mod OneLine
pub mod Reports
pub mod Torn
pub mod WholeLines
pub mod Writes
