-- Worked examples.
pub mod Notation
pub mod Cases
pub mod Answers
pub mod Statuses
pub mod Faults
pub mod Readings
pub mod Pairs
