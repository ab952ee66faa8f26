pub mod LentLaws
pub mod NameLaws
pub mod TimingLaws
pub mod Tells
pub mod Unique
pub mod KeepsLaws
pub mod ChainLaws
pub mod Cases
