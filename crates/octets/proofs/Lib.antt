pub mod Value
pub mod Over
pub mod Fields
pub mod Logic
pub mod Lists
pub mod Same
pub mod Each
