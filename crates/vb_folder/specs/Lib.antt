pub mod Events
pub mod Ledgers
pub mod Sound
pub mod Uploads
pub mod Sending
pub mod Runs
