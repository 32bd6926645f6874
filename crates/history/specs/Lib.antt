pub mod Pasts
pub mod Rules
