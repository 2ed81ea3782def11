pub mod Costs
pub mod Obeyed
pub mod Places
