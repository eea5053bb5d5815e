pub mod Coded
pub mod Onward
pub mod Walk
pub mod Laws
pub mod Worked
pub mod Witnesses
