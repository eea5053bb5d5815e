pub mod Table
pub mod Machine
