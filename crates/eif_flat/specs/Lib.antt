pub mod Flat
pub mod Worked
