mod Below
pub mod Filling
pub mod Found
pub mod Picking
pub mod Placing
pub mod Ranking
pub mod Rising
mod Sinking
pub mod Sizes
