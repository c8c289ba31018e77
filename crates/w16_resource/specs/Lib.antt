pub mod Loads
pub mod Parts
pub mod Sources
