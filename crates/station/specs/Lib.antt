pub mod Two
pub mod Progress
pub mod Claims
