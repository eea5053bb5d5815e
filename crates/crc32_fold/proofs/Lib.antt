pub mod Carried
pub mod Round
