pub mod ConversationLaws
pub mod MessageLaws
pub mod ServingLaws
