pub mod Journals
pub mod Audits
pub mod Heads
pub mod Findings
pub mod Errors
pub mod Observed
