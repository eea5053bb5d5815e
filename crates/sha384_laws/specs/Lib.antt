pub mod Pieces
pub mod Roots
pub mod Worked
