pub mod Streams
pub mod Runs
pub mod Worked
