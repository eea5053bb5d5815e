pub mod Fingerprinting
