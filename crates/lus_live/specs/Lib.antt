pub mod Limits
pub mod CommandLine
pub mod Runs
pub mod Tables
pub mod Ends
