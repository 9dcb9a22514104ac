pub mod Address
pub mod Halves
pub mod Orders
pub mod Payload
pub mod PrefixFaults
pub mod Text
pub mod TextRows
pub mod TextSteps
