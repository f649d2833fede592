pub mod Messages
pub mod Replays
pub mod Playing
pub mod Feeds
pub mod Loads
pub mod Sends
pub mod Laws
pub mod Streams
