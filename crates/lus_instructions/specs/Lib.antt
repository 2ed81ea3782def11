pub mod Words
pub mod Applied
pub mod Seeing
pub mod Executed
pub mod Locations
pub mod Followed
pub mod Tallied
