pub mod BodyLengths
pub mod PathTexts
pub mod MessagesSame
pub mod FrameFronts
pub mod WholeFrames
pub mod FramesRead
pub mod BodiesRead
pub mod FrameLaws
