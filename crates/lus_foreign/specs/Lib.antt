pub mod Holds
pub mod Seated
pub mod Closing
