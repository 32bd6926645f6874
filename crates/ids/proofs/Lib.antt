pub mod Numbers
mod OneMap
mod Placing
