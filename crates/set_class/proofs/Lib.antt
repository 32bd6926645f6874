mod Columns
mod Compared
pub mod Halves
