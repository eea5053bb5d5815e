pub mod Build
pub mod Shapes
