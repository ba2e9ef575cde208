-- What an operation on one register comes to, which no public contract cites.
pub mod internal
