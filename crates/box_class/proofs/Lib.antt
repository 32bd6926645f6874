pub mod Bounds
mod Columns
mod Compared
mod Narrow
pub mod Places
