pub mod Contents
pub mod Operations
pub mod Refusals
pub mod Renames
pub mod Trees
