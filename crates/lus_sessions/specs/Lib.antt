pub mod Calls
pub mod Recoveries
pub mod Sessions
pub use Rattle.lus_play.specs as PlaySpecs
