pub mod Order
pub mod Limit
pub mod Staged
pub mod Registers
pub mod Fingerprint
pub mod Witnesses
