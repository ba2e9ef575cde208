-- The definitions that the contracts cite.
pub mod Memory
pub mod Version
