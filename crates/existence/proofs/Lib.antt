-- The right panel keeps its contracts: laws of the memory that holds a replica, of the replicas that a memory can hold, and the theorems.
pub mod TableLaws
pub mod WidthLaws
pub mod ReadBackLaws
pub mod SavedLaws
pub mod FirstMemory
pub mod MemoryLaws
pub mod StorableLaws
pub mod RightPanelKeeps
pub mod RightHistory
pub mod NeverWorthless
pub mod WidthNeeded
