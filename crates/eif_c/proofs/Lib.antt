pub mod FromReading
