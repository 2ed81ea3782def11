pub mod Words
pub mod Windows
pub mod Picks
pub mod Finding
pub mod Reasons
