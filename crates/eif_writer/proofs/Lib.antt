pub mod Pieces
pub mod Image
