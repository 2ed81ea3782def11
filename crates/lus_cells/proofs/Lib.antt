pub mod Numbering
pub mod SameCells
pub mod CellsAlong
mod Examples
