pub mod Records
pub mod Rules
pub mod ByKind
pub mod Order
pub mod Step
