-- The laws of what is kept in arrays, for this crate's proofs and for the crates above it.
pub mod SliceLaws
pub mod WordLaws
pub mod RequestLaws
