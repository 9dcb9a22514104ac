pub mod AnsweringLaws
pub mod Sources
pub mod Sending
pub mod CallLaws
pub mod ConnectionLaws
pub mod WaitingLaws
pub mod VersionLaws
