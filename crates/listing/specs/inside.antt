-- What the private steps of the code compute. The promise of the call does not need it.
pub mod Rows
pub mod Steps
