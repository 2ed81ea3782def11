pub mod Words
pub mod Kept
pub mod Binding
pub mod Readings
