pub mod Paths
pub mod Faults
pub mod Holdings
pub mod Claiming
pub mod Ascents
pub mod Naming
pub mod Building
pub mod Walking
