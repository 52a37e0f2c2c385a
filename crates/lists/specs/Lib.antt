pub mod Lists
pub mod Decide
pub mod Reordered
