-- The laws of the definitions in `specs/`, for this crate's proofs and for the crates above it.
pub mod IntegerLaws
pub mod WidthLaws
