pub mod Logs
pub mod Spellings
pub mod LastEntries
pub mod Turns
pub mod Hosts
pub mod Audits
pub mod Recoveries
pub use Rattle.lus_live_instance.specs as LiveSpecs
pub use Rattle.lus_lawful.specs as LawfulSpecs
