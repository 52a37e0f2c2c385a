pub mod Text
pub mod Forms
pub mod Answers
