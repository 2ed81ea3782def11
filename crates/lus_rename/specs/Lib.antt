pub mod Renaming
pub use Rattle.lus_edits.specs as EditSpecs
