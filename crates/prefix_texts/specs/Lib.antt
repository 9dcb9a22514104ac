pub mod AsnText
pub mod MixedText
pub mod MixedLaws
pub mod Steps
