-- What the library promises.
pub mod Filling
pub mod Known
pub mod Unique
pub mod inside
