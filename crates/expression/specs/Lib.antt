pub mod Grammar
pub mod Outputs
pub mod Parts
pub mod Value
pub mod bridge
