pub mod Represented
pub mod Runs
