pub mod Attempts
pub mod Laws
