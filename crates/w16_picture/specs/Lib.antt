-- What the contracts cite.
pub mod Layout
pub mod Bands
pub mod Escape
pub mod Facts
pub mod Svg
pub mod Cells
pub mod Strips
pub mod Style
pub mod Picture
