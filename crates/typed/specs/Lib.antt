pub mod Grammar
pub mod Records
pub mod Meaning
pub mod Typed
pub mod Claims
pub mod bridge
