pub mod Playing
pub mod Run
