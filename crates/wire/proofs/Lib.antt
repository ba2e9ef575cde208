-- The laws of the definitions in `specs/`, for this crate's proofs and for the crates above it.
pub mod LayoutLaws
pub mod KindLaws
pub mod MessageLaws
pub mod ReaderLaws
pub mod WriterLaws
pub mod RoundTrip
pub mod HeadLaws
pub mod NeverClockBack
pub mod Examples
