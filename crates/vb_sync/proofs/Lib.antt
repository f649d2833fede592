pub mod Finding
pub mod Indexing
pub mod Asking
