-- The laws of rolling back, for the crates above.
pub mod RollbackLaws
pub mod ReplayLaws
