pub mod Types
pub mod Size
pub mod Verdict
pub mod Planned
