-- The laws of the definitions in `specs/`, for this crate's proofs and for the crates above it.
pub mod RefusalLaws
pub mod OrderLaws
pub mod EqualityLaws
