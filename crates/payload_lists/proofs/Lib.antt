pub mod Entries
pub mod ListText
pub mod PlainMembers
pub mod PlainTurns
pub mod PlainLoop
pub mod PlainLists
