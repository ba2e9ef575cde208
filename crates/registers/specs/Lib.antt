-- What is saved and rolled back.
pub mod Rollback
