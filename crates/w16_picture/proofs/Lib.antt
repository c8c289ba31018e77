pub mod Placing
pub mod Joining
pub mod Plain
