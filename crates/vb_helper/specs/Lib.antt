pub mod Errors
pub mod Repairs
pub mod Scrubs
