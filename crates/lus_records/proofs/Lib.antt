pub mod ColumnLaws
pub mod CellLaws
pub mod HeadLaws
pub mod InputLaws
pub mod OutputLaws
