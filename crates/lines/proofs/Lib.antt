pub mod Tests
pub mod LineLaws
pub mod ReadLaws
pub mod TokenLaws
pub mod FilterLaws
pub mod PlaceLaws
pub mod WalkLaws
pub mod Cases
