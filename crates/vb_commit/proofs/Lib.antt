pub mod PageCells
pub mod JournalCalls
pub mod WaysKept
pub mod WayClauses
pub mod WayLaws
pub mod GivenPages
pub mod PlannedPages
pub mod NextBlocks
