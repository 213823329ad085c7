pub mod StepLaws
pub mod Writes
pub mod Noted
