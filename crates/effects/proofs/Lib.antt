-- The laws of the definitions in `specs/`, for the crates above.
pub mod AmountLaws
pub mod SpanLaws
pub mod FrameLaws
pub mod TouchedCases
pub mod TouchedLaws
pub mod RegisterLaws
pub mod ReplayLaws
pub mod SumLaws
pub mod ClaimLaws
pub mod ClaimReadings
