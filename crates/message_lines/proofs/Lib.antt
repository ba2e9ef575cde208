-- The laws behind `put_messages`, for this crate and the one above it.
pub mod LoopLaws
