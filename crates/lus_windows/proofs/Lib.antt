pub mod Told
pub mod Rows
pub mod Walks
pub mod Following
pub mod Noted
pub mod Lawful
