-- The definitions that the contracts cite.
pub mod Encoding
pub mod internal
