-- The map to `creek` and the invariant, and what only functions on a panel and proofs cite.
pub mod Cores
pub mod Model
