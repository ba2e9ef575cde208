-- The definitions that the contracts cite.
pub mod Slots
pub mod Insertion
