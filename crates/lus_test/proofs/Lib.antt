pub mod Accepted
pub mod Heads
pub mod Ends
pub mod Steps
pub mod Held
pub mod Trials
