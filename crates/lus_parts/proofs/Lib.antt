pub mod Operands
pub mod Steps
pub mod Nested
