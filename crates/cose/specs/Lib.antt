pub mod Cbor
pub mod Sign1
pub mod Write
pub mod Read
pub mod Order
pub mod Worked
