pub mod Sections
pub mod Parts
pub mod Pieces
pub mod BootFirst
pub mod Witnesses
