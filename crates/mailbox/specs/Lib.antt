pub mod Outlets
pub mod RingEnds
pub mod Rings
