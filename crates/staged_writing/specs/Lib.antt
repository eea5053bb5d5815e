pub mod StagedWriting
pub mod Worked
