pub mod Steps
pub mod Words
pub mod Verbs
pub mod Commands
pub mod Lines
pub mod Scripts
pub mod Sound
pub mod Reader
