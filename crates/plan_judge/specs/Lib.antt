pub mod Types
pub mod Size
