pub mod AnswerLogs
pub mod ConnectionLaws
pub mod OpeningLaws
pub mod TimeLaws
pub mod UpstreamLaws
