-- The laws of a settlement, for this crate's proofs and for the replica.
pub mod SlotLaws
pub mod SeparationLaws
pub mod SettlementLaws
pub mod MovingLaws
pub mod FrontLaws
pub mod AloneLaws
pub mod CountedLaws
pub mod MovesLaws
pub mod MarkLaws
