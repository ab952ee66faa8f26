-- What private steps of the code return. No promise of a public call depends on this folder: a reader of the rules can skip it.
pub mod Held
pub mod Timing
pub mod Spoiled
pub mod Reply
pub mod Runs
pub mod Check
