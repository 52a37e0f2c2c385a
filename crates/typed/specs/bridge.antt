pub mod Reader
pub mod Outcome
pub mod Stream
pub mod Answers
