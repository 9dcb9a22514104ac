pub mod LimbLaws
pub mod MontgomeryLaws
pub mod OctetLaws
