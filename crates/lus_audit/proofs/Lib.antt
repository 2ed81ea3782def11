pub mod Accepted
pub mod EndLemmas
pub mod ReasonLaws
pub mod LogLaws
pub mod LogEnds
