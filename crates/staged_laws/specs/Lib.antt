pub mod Afresh
pub mod Worked
