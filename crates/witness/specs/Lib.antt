pub mod Judged
pub mod bridge
