pub mod Nodes
pub mod Layout
pub mod Checks
pub mod Views
pub mod Reading
pub mod Writing
pub mod Spellings
