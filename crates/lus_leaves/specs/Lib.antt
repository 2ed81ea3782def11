pub mod Leaves
pub mod Reading
pub mod Writing
pub mod Fits
pub mod Requests
