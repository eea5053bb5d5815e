pub mod Staged
pub mod View
pub mod Listed
pub mod Order
pub mod Worked
