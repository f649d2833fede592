pub mod Files
pub mod Needs
pub mod Performs
pub mod Replacing
pub mod Views
