pub mod LiveNodes
pub use Rattle.lus_machine.specs as MachineSpecs
