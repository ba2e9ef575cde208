-- What the functions that put the printout promise each other.
pub mod Putting
