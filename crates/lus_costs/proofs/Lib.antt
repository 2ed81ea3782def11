pub mod Limited
pub mod Counted
pub mod Bounded
pub mod CodeOrders
pub mod CodeCosts
mod Examples
