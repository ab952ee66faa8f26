mod Search
mod Quiet
mod Walk
pub mod Step
pub mod Demands
pub mod Taken
