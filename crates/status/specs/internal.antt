-- What only the functions of the crate and proofs cite.
pub mod Place
