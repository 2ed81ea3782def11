pub mod Lists
pub mod Clocks
pub mod Orders
pub mod Definitions
pub mod Calls
pub mod Unique
pub mod Worlds
pub mod Throughout
pub mod Alike
pub mod NilFree
pub mod FlagLaw
pub mod Examples
pub mod Judged
pub mod Sequences
pub mod CallParts
pub mod CallsResolved
pub mod NeedsResolved
mod ResolvedExamples
