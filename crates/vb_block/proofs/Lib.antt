pub mod Seals
pub mod Numbers
