pub mod Begun
pub mod Claimed
pub mod Failing
pub mod FileWays
pub mod Greeted
pub mod OpenedSound
pub mod Named
