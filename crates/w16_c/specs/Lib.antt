-- What the contracts cite.
pub mod Ownership
pub mod Makes
pub mod Walks
pub mod Files
pub mod Listing
pub mod Descriptors
