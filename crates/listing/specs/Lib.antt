pub mod Text
pub mod Listing
pub mod Sizes
pub mod Demands
pub mod Unique
pub mod Cases
pub mod inside
