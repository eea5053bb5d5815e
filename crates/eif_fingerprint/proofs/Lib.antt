pub mod Records
pub mod Hashed
pub mod Answers
