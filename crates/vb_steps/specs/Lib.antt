pub mod Calls
pub mod Disks
pub mod Runs
pub mod Steps
