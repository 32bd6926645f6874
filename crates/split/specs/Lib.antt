pub mod Potential
pub mod SearchTrees
pub mod Steps
pub mod Tests
