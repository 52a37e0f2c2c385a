pub mod Promised
pub mod Caller
pub mod bridge
