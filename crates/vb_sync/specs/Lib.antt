pub mod Published
pub mod Indexes
