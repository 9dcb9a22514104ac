pub mod NameLaws
pub mod KindLaws
