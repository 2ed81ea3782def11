pub mod Calls
pub mod Chosen
pub mod Noted
pub mod Sketched
pub mod Views
