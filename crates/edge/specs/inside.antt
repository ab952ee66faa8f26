-- What a private loop keeps. No promise of a call needs it.
pub mod Going
