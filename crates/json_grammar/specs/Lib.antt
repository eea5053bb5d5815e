pub mod Abnf
pub mod Utf8
pub mod Grammar
pub mod Verdict
