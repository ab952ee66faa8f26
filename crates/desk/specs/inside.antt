-- What the private steps of the code compute. No promise of a public call needs it.
pub mod Columns
pub mod Shown
pub mod Clauses
pub mod Counted
pub mod Judging
pub mod Counting
