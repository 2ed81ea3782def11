pub mod Errors
pub mod Quoting
