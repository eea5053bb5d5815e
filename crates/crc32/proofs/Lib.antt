pub mod Xor
pub mod Linear
pub mod Bounds
pub mod Burst
