pub mod Call
pub mod Piece
