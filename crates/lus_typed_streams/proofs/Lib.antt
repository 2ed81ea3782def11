pub mod Operators
pub mod EquationKinds
pub mod Values
pub mod Worlds
pub mod LiteralParts
pub mod StreamsTyped
pub mod Examples
