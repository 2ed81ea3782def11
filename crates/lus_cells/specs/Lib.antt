pub mod Cells
pub mod Given
