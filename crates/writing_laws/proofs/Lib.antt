pub mod Sections
pub mod Reached
pub mod Runs
pub mod Witnesses
