-- What is found in a run of bytes.
pub mod Found
