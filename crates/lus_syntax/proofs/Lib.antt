pub mod TreeViews
pub mod Cycles
pub mod Places
pub mod Longest
pub mod Meanings
pub mod Blocks
pub mod Runs
pub mod Unique
pub mod Cuts
pub mod Spans
pub mod Refused
pub mod Characters
mod Examples
