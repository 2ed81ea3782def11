pub mod Sources
pub mod ScriptErrors
pub mod Histories
pub mod Headlines
pub use Rattle.lus_callers.proofs.SharedProofs as SharedProofs
