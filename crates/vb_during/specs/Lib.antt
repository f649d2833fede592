pub mod During
pub mod TornPages
pub mod Histories
