pub mod Traces
pub mod Tables
pub mod Markup
pub mod Pages
