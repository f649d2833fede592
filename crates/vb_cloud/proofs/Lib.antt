pub mod Digests
pub mod Drafted
pub mod Found
pub mod Keeps
pub mod Rises
