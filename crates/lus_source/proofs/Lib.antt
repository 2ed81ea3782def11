pub mod Lookups
pub mod Faults
pub mod FieldsMeant
mod Rows
pub mod AppendedNames
pub mod DeclaredNames
pub mod NodeParts
pub mod Counting
pub mod TypesMeant
pub mod Measures
pub mod Placing
pub mod OfSource
