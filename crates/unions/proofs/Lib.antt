-- Laws of two sets in words, for this crate's proofs and for a settlement.
pub mod LackedLaws
mod UnionLaws
