pub mod Changes
pub mod CommandLine
pub mod Ends
pub mod Faults
pub mod Programs
pub use Rattle.lus_host.specs as HostSpecs
pub use Rattle.lus_host.specs.MachineSpecs as MachineSpecs
pub use Rattle.lus_host.specs.CodeSpecs as CodeSpecs
