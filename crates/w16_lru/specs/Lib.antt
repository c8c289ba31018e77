pub mod Uses
pub mod Representation
