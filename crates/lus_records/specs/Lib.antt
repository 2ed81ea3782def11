pub mod Columns
pub mod Records
pub mod Heads
pub mod Outputs
pub mod View
