pub mod Tests
pub mod Reading
pub mod Writing
pub mod Laws
pub mod Parts
pub mod Forms
pub mod Sure
pub mod Tables
