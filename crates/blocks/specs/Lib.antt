pub mod Firsts
pub mod Rewriting
pub mod Values
