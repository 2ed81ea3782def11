pub mod Formats
pub use Rattle.lus_edits.specs.Kept as EditSpecs
