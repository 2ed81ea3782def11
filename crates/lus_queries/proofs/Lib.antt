pub mod SpotLaws
pub mod ChangeLaws
pub mod EditLaws
