-- Of every panel that keeps its contracts: demand 3, clocks that are put back, two panels side by side; and that no worthless panel keeps
-- them.
pub mod History
pub mod Received
pub mod Unseen
pub mod Clocks
pub mod PanelHistory
pub mod StableReplies
pub mod Agreement
pub mod Worthless
