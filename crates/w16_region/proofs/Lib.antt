pub mod Common
pub mod Bytes
mod Lends
mod Pairs
mod Frames
pub mod Words
pub mod Slides
