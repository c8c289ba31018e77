pub mod Descriptors
pub mod Representation
