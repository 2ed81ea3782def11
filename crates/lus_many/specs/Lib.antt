pub mod CommandLine
pub mod Objects
pub mod Ends
