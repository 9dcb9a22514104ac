pub mod AnswerFaults
pub mod Lines
pub mod UnitLines
pub mod Answered
pub mod Serves
