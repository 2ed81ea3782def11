pub mod Lists
pub mod Checks
pub mod DistinctNames
pub mod Values
pub mod ReadScripts
pub mod RequestLists
mod Examples
