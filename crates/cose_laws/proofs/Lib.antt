pub mod Numbers
pub mod Places
pub mod RoundTrip
pub mod Accepted
pub mod FirstApplies
pub mod Witnesses
