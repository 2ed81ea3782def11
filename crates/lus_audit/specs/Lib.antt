pub mod CommandLine
pub mod Ends
pub mod Reasons
pub mod LogReasons
pub mod Logs
