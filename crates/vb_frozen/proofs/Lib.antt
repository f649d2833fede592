pub mod Built
pub mod GivenPages
pub mod Places
pub mod Settled
pub mod Sourced
pub mod Trees
