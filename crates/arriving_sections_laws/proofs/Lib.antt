pub mod Order
pub mod Heads
pub mod Growth
pub mod Accepted
pub mod Joined
pub mod Begun
pub mod Parts
pub mod Runs
