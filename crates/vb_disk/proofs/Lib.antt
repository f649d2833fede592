pub mod CrashedDisks
pub mod Outcomes
pub mod Places
pub mod StatesOf
pub mod StepsOfCrashes
pub mod TestsOfMisses
pub mod Ways
pub mod Withins
