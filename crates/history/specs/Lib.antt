-- A list of calls on a panel, all due steps at once among them, and what is claimed of it: demand 3, and of clocks that are put back; two
-- panels side by side; the worthless panels.
pub mod History
pub mod Received
pub mod Unseen
pub mod Clocks
pub mod PanelHistory
pub mod Agreement
pub mod Worthless
