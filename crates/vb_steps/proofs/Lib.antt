pub mod RunsKept
pub mod StepsMade
pub mod StepsLike
