-- The definitions over lists, for the crates above.
pub mod Lists
pub mod Places
pub mod Tally
