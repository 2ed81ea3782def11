pub mod Kept
pub mod Made
pub mod Given
pub mod Placed
pub mod Needed
pub mod Causes
pub mod Laws
