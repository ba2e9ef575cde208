-- What only internal functions and proofs cite.
pub mod OnBoard
