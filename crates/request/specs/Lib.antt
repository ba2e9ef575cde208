-- The definitions that the contracts cite, in the order of reading.
pub mod Refusal
pub mod Operations
pub mod Asked
pub mod Order
pub mod Request
