pub mod Limbs
pub mod Rsa
pub mod RsaRows
