pub mod Lives
pub use Rattle.lus_play.specs as PlaySpecs
pub use Rattle.lus_machine.specs as MachineSpecs
