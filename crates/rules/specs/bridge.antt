pub mod Modes
pub mod Summary
pub mod Readings
pub mod Plain
