pub mod EndLemmas
pub mod Lines
pub mod Pieces
pub mod ProgramLemmas
pub mod TellingLemmas
pub use Rattle.lus_host.proofs as HostProofs
