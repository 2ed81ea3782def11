pub mod Answers
pub mod Messages
pub mod Renames
pub mod Serving
pub mod Conversations
