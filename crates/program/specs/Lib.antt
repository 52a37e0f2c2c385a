pub mod Text
pub mod Turns
pub mod Claims
pub mod bridge
