pub mod Leads
pub mod Pieces
pub mod Demands
pub mod inside
