pub mod Deliveries
pub mod Following
pub mod Remaining
