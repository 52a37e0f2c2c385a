pub mod Build
pub mod Gathered
pub mod Noted
