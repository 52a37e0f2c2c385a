pub mod Levels
pub mod Readings
