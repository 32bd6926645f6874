pub mod Pasts
pub mod Adding
