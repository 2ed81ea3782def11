pub mod EndLemmas
pub mod RunLaws
pub mod TableLaws
