-- The definitions that the contracts cite.
pub mod Due
pub mod internal
