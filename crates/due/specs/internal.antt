-- What only the loops and proofs cite.
pub mod Job
