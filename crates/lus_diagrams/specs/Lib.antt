pub mod Columns
pub mod ColumnView
pub mod Tables
pub mod Parts
