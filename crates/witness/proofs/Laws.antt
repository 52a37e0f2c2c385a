pub mod Search
pub mod Judged
