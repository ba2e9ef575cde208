-- The definitions that the contracts cite.
pub mod Status
pub mod internal
