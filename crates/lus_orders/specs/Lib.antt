pub mod Looks
pub mod Orders
pub mod Boards
pub mod Classes
pub mod Made
pub mod Segments
pub mod Stores
