pub mod Faults
pub mod Playing
