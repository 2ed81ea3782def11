pub mod Limits
pub mod Forms
pub mod Scripts
pub mod View
pub mod Requests
