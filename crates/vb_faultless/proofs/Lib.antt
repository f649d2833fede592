pub mod Answered
pub mod Undamaged
pub mod Whole
