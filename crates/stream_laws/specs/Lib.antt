pub mod Pieces
pub mod Sums
