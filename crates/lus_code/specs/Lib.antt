pub mod Codes
pub mod Correct
pub mod Made
pub use Rattle.lus_order.specs as OrderSpecs
pub use Rattle.lus_cells.specs as CellsSpecs
pub use Rattle.lus_simulation.specs as SimulationSpecs
