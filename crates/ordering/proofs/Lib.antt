-- The laws of lists of slots, for this crate's proofs and for the crates above.
pub mod SlotLaws
pub mod InsertionLaws
pub mod OwnPlaceLaws
