-- What only functions within the crate and proofs cite.
pub mod LaidOut
