pub mod Head
pub mod Parts
pub mod Answers
pub mod Numbers
pub mod Same
