pub mod Names
pub mod Files
pub mod Later
pub mod Memory
pub mod Fuse
pub mod Folder
pub mod Places
