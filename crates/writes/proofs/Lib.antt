pub mod Coming
pub mod Deaths
mod Dying
pub mod Events
pub mod HorizonFacts
pub mod MovingPages
pub mod Nearing
pub mod OnWay
pub mod Refusing
mod Sought
pub mod Swept
pub mod UnderWay
pub mod Visited
pub mod Visiting
