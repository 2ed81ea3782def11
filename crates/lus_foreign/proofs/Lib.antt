pub mod AsBox
pub mod Gathers
pub mod Sent
