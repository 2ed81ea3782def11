pub mod Sources
pub mod ScriptRefusals
pub mod Errors
pub mod Runs
pub mod Headline
pub mod View
pub use Rattle.lus_callers.specs as CallersSpecs
pub use Rattle.lus_callers.specs.MachineSpecs as MachineSpecs
pub use Rattle.lus_callers.specs.CodeSpecs as CodeSpecs
