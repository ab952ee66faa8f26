pub mod Digits
pub mod Form
pub mod Text
pub mod Refusals
pub mod Told
pub mod Once
