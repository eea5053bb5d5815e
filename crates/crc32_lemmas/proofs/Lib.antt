pub mod Sparse
pub mod Steps
pub mod Remainder
pub mod Joined
pub mod FoldBits
pub mod FoldWords
pub mod FoldBytes
pub mod FoldRing
