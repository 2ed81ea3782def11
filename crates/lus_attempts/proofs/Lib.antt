pub mod Unique
pub mod WithoutFault
pub mod Newest
pub mod Formals
pub mod Examples
