mod Keys
mod RunLoops
mod RunSteps
mod Same
