pub mod ListFaults
pub mod PayloadList
pub mod EntrySteps
pub mod PlainForm
