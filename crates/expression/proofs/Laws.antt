-- Laws of the definitions.
pub mod Chains
pub mod Steps
pub mod Places
pub mod Symbols
pub mod Numbers
pub mod Folds
pub mod Complete
pub mod Sound
pub mod Integers
pub mod Affine
pub mod Listed
pub mod Samples
