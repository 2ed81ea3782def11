pub mod Verdicts
pub use Rattle.lus_cli.proofs as CliProofs
