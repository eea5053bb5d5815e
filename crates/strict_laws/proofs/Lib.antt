pub mod Strict
pub mod Witnesses
