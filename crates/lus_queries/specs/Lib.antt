pub mod Spots
pub mod Changes
pub mod Edits
