pub mod Clock
pub mod Day
pub mod Net
pub mod Running
pub mod Unique
pub mod inside
