-- The laws behind a run.
pub mod Running
pub mod RunLaws
