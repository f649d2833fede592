pub mod Disks
pub mod Reads
pub mod Tables
