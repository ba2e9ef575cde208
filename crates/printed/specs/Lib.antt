-- The definitions that the contract of the printout cites.
pub mod Printout
