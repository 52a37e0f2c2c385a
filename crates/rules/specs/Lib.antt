pub mod Answers
pub mod bridge
