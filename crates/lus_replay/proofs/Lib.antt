pub mod Lines
pub mod Splits
pub mod Plain
pub mod Apart
pub mod Journals
pub mod Follows
