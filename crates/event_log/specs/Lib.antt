pub mod Clock
pub mod ClockRows
pub mod ReportNames
pub mod Entries
pub mod Lines
pub mod LineRows
pub mod Levels
pub mod LevelRows
