pub mod Pieces
pub mod Numbers
pub mod Lists
pub mod Values
pub mod Requests
