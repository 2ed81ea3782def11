pub mod Paths
pub mod Selections
pub mod Signals
pub mod Sketches
