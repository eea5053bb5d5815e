pub mod Complete
pub mod Ramdisks
pub mod Kept
