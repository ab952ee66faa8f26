pub mod FillingLaws
pub mod Known
pub mod Unique
