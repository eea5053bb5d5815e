pub mod Padded
pub mod Growth
pub mod Answer
pub mod Runs
pub mod Witnesses
