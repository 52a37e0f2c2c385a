pub mod Keeping
pub mod Promised
pub mod Caller
pub mod Preview
pub mod bridge
