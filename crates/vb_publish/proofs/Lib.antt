pub mod GoesOn
pub mod Growing
pub mod Lengths
pub mod Names
pub mod Rows
pub mod Shown
pub mod Taken
