-- The definitions that the contracts cite.
pub mod State
pub mod Promises
pub mod Uses
pub mod Changes
pub mod Memory
pub mod Shown
pub mod internal
