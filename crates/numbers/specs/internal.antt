-- What only functions over slots, the panel's memory and proofs cite.
pub mod Slots
