pub mod Options
pub mod Rows
pub mod Codes
pub mod Kept
pub mod Solving
pub mod Instants
pub mod Passing
pub mod Presence
pub mod Calls
pub mod Lawful
pub mod Starts
pub mod Following
pub mod Examples
pub mod OnClocks
pub mod FormulaViews
pub mod ShortTurns
mod CallExamples
