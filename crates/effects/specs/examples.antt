-- Worked examples.
pub mod ClaimReadings
pub mod TouchedCases
