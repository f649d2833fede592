pub mod Clouds
pub mod Messages
pub mod Plans
pub mod Worked
