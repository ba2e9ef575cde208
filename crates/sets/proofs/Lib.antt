-- The laws of the definitions in `specs/`, for this crate's proofs and for the crates above it.
pub mod WordLaws
pub mod BitLaws
pub mod SetLaws
pub mod PanelLaws
pub mod LowestLaws
