pub mod Accept
pub mod Afresh
pub mod Same
pub mod Held
pub mod Shown
pub mod Listed
