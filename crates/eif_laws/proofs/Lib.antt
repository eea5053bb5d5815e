pub mod Acceptance
pub mod FirstApplies
pub mod Listed
pub mod Burst
pub mod Witnesses
