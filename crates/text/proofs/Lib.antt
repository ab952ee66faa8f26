pub mod PutLaws
pub mod DecimalLaws
pub mod LineLaws
pub mod Unique
pub mod Cases
pub mod AddressCases
