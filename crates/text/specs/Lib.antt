pub mod Put
pub mod Decimal
pub mod Lines
pub mod Address
pub mod Unique
pub mod Cases
pub mod AddressCases
