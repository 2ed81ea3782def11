pub mod Fields
pub mod Given
pub mod Operands
pub mod Tallying
pub mod Putting
pub mod Following
pub mod Growing
