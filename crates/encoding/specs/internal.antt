-- What only functions on a panel and proofs cite.
pub mod Running
