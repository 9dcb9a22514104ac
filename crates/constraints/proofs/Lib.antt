pub mod PartLaws
pub mod ValueLaws
pub mod FileLaws
pub mod GatherLaws
pub mod JudgeLaws
pub mod JudgeRows
pub mod Once
