pub mod Renaming
pub mod Parts
pub mod Nested
