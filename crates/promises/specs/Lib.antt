pub mod EntryPoint
pub mod Promised
pub mod Program
pub mod Promises
