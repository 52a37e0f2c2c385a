pub mod Admitting
pub mod Going
pub mod Caller
