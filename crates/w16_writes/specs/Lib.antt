pub mod LastWrite
pub mod Promises
