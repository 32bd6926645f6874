pub mod Cuts
pub mod Delivering
pub mod Parts
pub mod Permuting
pub mod Places
pub mod Rolls
pub mod Slots
pub mod Taking
