pub mod Contracts
pub mod Program
pub mod Promises
