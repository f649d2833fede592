pub mod Mending
pub mod Fetched
pub mod Following
pub mod Treating
pub mod Sorted
