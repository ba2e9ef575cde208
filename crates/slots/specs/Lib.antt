-- The order after a settlement.
pub mod Front
pub mod Settlement
pub mod Marks
