pub mod Blocks
pub mod Fed
pub mod Pieces
pub mod Standard
