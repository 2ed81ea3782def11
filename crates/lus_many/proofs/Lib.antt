pub mod EndLemmas
pub mod ObjectLaws
