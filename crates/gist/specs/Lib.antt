pub mod CommandLine
pub mod Served
pub mod Spelling
pub mod Storms
