pub mod Together
pub mod Counts
pub mod Ends
pub mod Shrinks
pub mod Stays
pub mod Until
pub mod Tallies
pub mod Files
