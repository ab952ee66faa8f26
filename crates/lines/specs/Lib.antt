pub mod Lines
pub mod Machine
pub mod Reads
pub mod Demands
pub mod Tokens
pub mod Filter
pub mod Places
pub mod Cases
