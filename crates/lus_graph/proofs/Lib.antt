pub mod Steps
pub mod NoWayBack
pub mod AlongOrders
