pub mod Diagnoses
pub use Rattle.lus_cli.specs as CliSpecs
