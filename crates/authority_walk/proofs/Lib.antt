pub mod Having
pub mod Progressing
pub mod Standing
pub mod Walking
