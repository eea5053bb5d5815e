pub mod Logic
pub mod Lists
pub mod Bytes
pub mod Over
pub mod ByteOrder
pub mod Same
