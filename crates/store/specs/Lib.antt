pub mod Renewing
pub mod States
pub mod Stats
pub mod Worlds
