pub mod Leaves
pub mod Writes
pub mod Only
pub mod OnlyRows
