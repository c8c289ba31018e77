pub mod Layout
pub mod Tables
pub mod Data
pub mod Ne
pub mod Law
pub mod Samples
