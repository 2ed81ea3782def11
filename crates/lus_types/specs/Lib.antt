pub mod ByScope
pub mod Laws
pub mod Wholes
pub mod TypedPrograms
