pub mod CommandLine
pub mod Judged
pub mod Skeletons
pub mod Ends
