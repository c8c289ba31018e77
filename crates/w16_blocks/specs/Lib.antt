pub mod Layout
pub mod Kept
pub mod Stay
pub mod Parts
pub mod Runs
pub mod Below
