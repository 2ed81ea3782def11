pub mod Accepted
pub mod Audited
pub mod Drawn
pub mod Files
