-- What the contracts cite.
pub mod Numbered
pub mod Words
pub mod Plain
pub mod Text
pub mod Imports
pub mod Json
pub mod Report
pub mod Extract
