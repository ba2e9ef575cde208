-- The laws of taking in a message and of what is found in a run of bytes, for the crates above.
pub mod IntakeLaws
