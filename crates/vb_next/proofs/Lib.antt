pub mod Standing
pub mod ByFind
pub mod KeptOnes
pub mod After
pub mod Referred
