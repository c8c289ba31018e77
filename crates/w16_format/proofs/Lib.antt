pub mod Common
pub mod Bytes
pub mod Segments
pub mod Relocated
pub mod Files
pub mod Fetched
pub mod Lookups
pub mod Samples
