pub mod Naming
pub mod Finding
pub mod Listing
