-- What the private steps of the code compute. No promise of a public call needs it.
pub mod Quiet
