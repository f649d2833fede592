pub mod Ways
pub mod Known
pub mod Steps
pub mod Shown
pub mod Placings
