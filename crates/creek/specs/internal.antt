-- What only invariants and proofs cite.
pub mod Sound
pub mod SoundAwaiting
pub mod Stack
