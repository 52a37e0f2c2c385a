pub mod Building
pub mod Tables
