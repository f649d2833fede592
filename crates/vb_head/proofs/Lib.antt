pub mod HeadsRead
pub mod HeadsWritten
pub mod Parts
