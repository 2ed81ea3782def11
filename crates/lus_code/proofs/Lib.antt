pub mod CallOrders
pub mod Emitted
pub mod KeptRows
pub mod MadeClasses
pub mod NormalForms
pub mod Parted
pub mod Passing
pub use Rattle.lus_order.proofs as OrderProofs
pub use Rattle.lus_simulation.proofs as SimulationProofs
