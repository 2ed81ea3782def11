pub mod Nameless
pub mod Stored
