pub mod Answers
pub mod Core
pub mod Promise
pub mod Sound
pub mod Steps
