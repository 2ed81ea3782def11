pub mod Fitting
pub mod View
pub mod Raising
pub use Rattle.lus_streams.specs as StreamsSpecs
