pub mod Roll
pub mod Runs
pub mod Worked
