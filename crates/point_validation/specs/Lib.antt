pub mod ResourceCertificates
pub mod Held
pub mod Issuers
pub mod ChildFaults
pub mod Children
