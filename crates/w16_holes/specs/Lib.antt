pub mod Holes
pub mod Cells
pub mod Law
pub mod Thread
