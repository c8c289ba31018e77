pub mod State
pub mod NewPlace
pub mod Asked
pub mod Representation
pub mod Growth
