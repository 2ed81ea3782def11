pub mod CommandLine
pub mod Drawings
pub mod Ends
pub mod Gatherings
pub mod Reading
