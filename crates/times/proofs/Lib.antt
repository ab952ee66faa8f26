pub mod ClockLaws
pub mod DayLaws
pub mod SignedLaws
pub mod NetLaws
pub mod RunningLaws
pub mod Unique
