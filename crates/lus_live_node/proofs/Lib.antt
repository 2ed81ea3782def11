pub mod LiveLaws
pub use Rattle.lus_machine.proofs as MachineProofs
