pub mod Answers
pub mod AtRest
pub mod Events
pub mod Phases
pub mod Shown
pub mod States
pub mod Ties
pub mod Trees
