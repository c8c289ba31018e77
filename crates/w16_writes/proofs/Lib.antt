pub mod Bytes
pub mod Calls
pub mod Segments
pub mod Locals
pub mod Steps
pub mod Runs
pub mod Examples
pub mod Promises
