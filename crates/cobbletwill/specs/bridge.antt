pub mod Lent
pub mod Chained
