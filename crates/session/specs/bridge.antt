pub mod Running
pub mod Later
pub mod Counting
