pub mod Counts
pub mod FreePlaces
pub mod Marks
pub mod Seen
