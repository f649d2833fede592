pub mod AtRest
pub mod Commits
pub mod Reads
