pub mod Form
pub mod Faults
pub mod Order
pub mod Piece
pub mod Steps
