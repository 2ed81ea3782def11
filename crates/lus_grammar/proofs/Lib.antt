pub mod Depths
pub mod Steps
pub mod Items
pub mod Turns
pub mod Refusals
