pub mod Found
pub mod Openings
pub mod Feeding
pub mod Steps
pub mod Playing
pub mod Loading
pub mod SentFrames
pub mod WholeLogs
