pub mod Columns
pub mod Bare
