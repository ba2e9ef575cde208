-- What only private functions and proofs cite.
pub mod OneRegister
