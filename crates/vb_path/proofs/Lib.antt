pub mod PathLaws
pub mod Pieces
pub mod ReadText
pub mod PartBounds
pub mod PartLaws
