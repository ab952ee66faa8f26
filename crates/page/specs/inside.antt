pub mod Tokens
pub mod Machine
pub mod Ending
pub mod Writing
pub mod Held
pub mod Taking
pub mod Checking
pub mod Stored
